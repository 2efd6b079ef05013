pub mod Modes
pub mod Rules
pub mod Equal
pub mod OpenShop
pub mod Bounds
