pub mod Above
pub mod Carries
pub mod Kept
pub mod Made
pub mod Shown
