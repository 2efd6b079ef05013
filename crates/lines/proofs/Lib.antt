pub mod Sums
pub mod Loads
pub mod Counts
pub mod Bits
pub mod FromFn
pub mod Rows
pub mod Tests
