pub mod Modes
pub mod Shops
pub mod Unfolded
pub mod Rules
pub mod Equal
