pub mod Bytes
pub mod Copies
pub mod Putting
pub mod Reading
pub mod Theorems
pub mod Writing
pub mod Zeros
