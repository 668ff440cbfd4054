pub mod Labelling
pub mod Verdict
