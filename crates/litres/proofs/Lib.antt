pub mod Four
pub mod Patterns
pub mod Rounding
pub mod Sums
