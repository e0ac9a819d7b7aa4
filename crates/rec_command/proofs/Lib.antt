pub mod OrderLemmas
pub mod RefusalLemmas
pub mod UsageLemmas
pub mod WordsLemmas
