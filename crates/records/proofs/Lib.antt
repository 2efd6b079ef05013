pub mod Rows
pub mod Files
pub mod Reservations
pub mod Calls
pub mod Chunks
