pub mod RunExamples
