pub mod File
pub mod Listing
pub mod ListingPaper
pub mod Output
pub mod RunExamples
pub mod Stages
pub mod Text
pub mod Verdict
