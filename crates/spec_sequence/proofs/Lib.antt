pub mod CheckExamples
