pub mod Counts
pub mod Fronting
pub mod Shapes
pub mod Theorems
