pub mod Rows
pub mod Outcomes
