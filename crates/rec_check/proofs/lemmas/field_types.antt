pub mod KindLemmas
pub mod RegexpLemmas
pub mod TypeExamples
pub mod ResolvingExamples
pub mod MeaningLemmas
pub mod LastLemmas
pub mod ResolvedLemmas
pub mod FittingLemmas
