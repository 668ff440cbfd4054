pub mod Fields
pub mod Showing
pub mod Theorems
pub mod Totals
