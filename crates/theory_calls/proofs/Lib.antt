pub mod NumberLists
pub mod NumberTable
pub mod Theorems
