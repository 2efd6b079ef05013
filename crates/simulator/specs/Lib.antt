pub mod Faults
pub mod Made
