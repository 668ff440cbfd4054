pub mod Ranking
pub mod Single
pub mod Steps
pub mod Validities
