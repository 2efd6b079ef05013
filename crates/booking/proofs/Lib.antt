pub mod Batches
pub mod Struck
pub mod Lowest
