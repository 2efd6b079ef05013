pub mod Declines
pub mod States
pub mod Runs
pub mod Refusals
pub mod Calls
pub mod History
pub mod Stories
pub mod Single
