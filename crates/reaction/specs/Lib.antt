pub mod Completions
pub mod Reactions
