pub mod Bytes
pub mod Limits
pub mod Parts
pub mod Sets
pub mod Subsets
pub mod WholeLitres
pub mod Widths
