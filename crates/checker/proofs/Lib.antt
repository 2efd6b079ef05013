pub mod Tallies
pub mod Judged
pub mod Search
