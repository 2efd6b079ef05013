pub mod Bits
pub mod Hall
pub mod Rounds
pub mod Grants
pub mod Serving
pub mod Keeping
pub mod Going
pub mod Plans
