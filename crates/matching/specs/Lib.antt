pub mod Supports
pub mod Answers
