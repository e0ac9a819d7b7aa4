pub mod WellFormedLemmas
pub mod ScriptLemmas
pub mod RunLemmas
pub mod ChangeLemmas
pub mod LaidLemmas
pub mod EqualLemmas
