pub mod Sums
pub mod Matrix
pub mod Sets
pub mod Verdicts
