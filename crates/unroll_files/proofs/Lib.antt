pub mod Outputs
pub mod Theorems
