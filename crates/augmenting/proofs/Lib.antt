pub mod Cuts
pub mod Seats
pub mod Ends
