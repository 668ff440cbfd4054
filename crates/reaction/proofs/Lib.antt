pub mod Accumulating
pub mod Completions
pub mod Values
