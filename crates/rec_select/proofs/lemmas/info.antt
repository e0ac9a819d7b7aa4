pub mod InfoLemmas
pub mod InfoExamples
