pub mod Supports
pub mod Making
pub mod Best
pub mod Kept
pub mod Plans
pub mod Rests
