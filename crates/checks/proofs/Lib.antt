pub mod LabelRules
pub mod Passing
pub mod Verdicts
