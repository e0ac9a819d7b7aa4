pub mod OutcomeLemmas
pub mod EffectLemmas
pub mod UnruledLemmas
pub mod EditLemmas
pub mod AnswerLemmas
pub mod WrittenLemmas
pub mod BatchLemmas
pub mod OneOutcomeLemmas
