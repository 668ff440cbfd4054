pub mod Copying
pub mod Measured
pub mod Putting
pub mod Unrolling
pub mod Writing
