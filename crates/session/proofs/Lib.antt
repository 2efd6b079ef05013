pub mod Acting
pub mod Advances
pub mod Stepping
pub mod Planning
pub mod Written
