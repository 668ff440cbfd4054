pub mod Arms
pub mod Decoding
pub mod Delivering
pub mod Lengths
pub mod Replying
pub mod Ticking
