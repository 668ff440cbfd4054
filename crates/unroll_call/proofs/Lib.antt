pub mod Copying
pub mod Deciding
pub mod Putting
pub mod Steps
pub mod Writing
