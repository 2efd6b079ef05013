pub mod Pieces
pub mod Grammar
