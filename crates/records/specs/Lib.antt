pub mod Layout
pub mod Reader
pub mod Files
pub mod Reservations
