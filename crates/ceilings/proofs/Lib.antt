pub mod CeilingExamples
pub mod Counting
pub mod Passing
pub mod Planning
pub mod Products
pub mod Sizes
pub mod Theorems
