pub mod Buffers
pub mod Fields
pub mod Lines
pub mod Numerals
pub mod Sets
