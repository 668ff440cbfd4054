pub mod Combining
pub mod CombiningTwo
