pub mod WholeMode
