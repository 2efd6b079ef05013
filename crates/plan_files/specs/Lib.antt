pub mod Declines
pub mod Reading
pub mod Encoding
pub mod Back
