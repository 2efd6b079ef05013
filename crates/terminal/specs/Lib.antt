pub mod Scripts
pub mod Input
