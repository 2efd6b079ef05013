pub mod Fronts
pub mod Rules
pub mod Turns
pub mod Told
