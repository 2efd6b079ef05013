pub mod Stages
pub mod Replying
pub mod Lending
