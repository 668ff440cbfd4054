pub mod Layout
pub mod Notes
pub mod Joints
pub mod Known
pub mod Walk
