pub mod Rows
pub mod Visits
pub mod Fronts
pub mod Padding
