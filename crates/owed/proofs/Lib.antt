pub mod Cells
pub mod Busiest
