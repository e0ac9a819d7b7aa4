mod EditExamples
mod InsertExamples
pub mod WordingExamples
pub mod BatchExamples
