pub mod Paper
pub mod Theorems
pub mod Turns
