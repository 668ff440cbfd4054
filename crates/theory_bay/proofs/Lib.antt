pub mod Alike
pub mod Codes
pub mod Fields
pub mod Gathering
pub mod Groups
pub mod Numbers
pub mod Theorems
pub mod Ticking
