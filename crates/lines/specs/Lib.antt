pub mod Buffer
pub mod Shown
