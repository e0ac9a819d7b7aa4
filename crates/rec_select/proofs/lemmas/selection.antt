pub mod FilterLemmas
pub mod OneLineLemmas
pub mod SelectionLemmas
pub mod SelectionExamples
pub mod FieldValueExamples
pub mod IndexLemmas
