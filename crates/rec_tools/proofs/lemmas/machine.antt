pub mod StandsLemmas
pub mod ForgettingLemmas
pub mod ToldLemmas
pub mod ShowingLemmas
pub mod StandingLemmas
pub mod StepLemmas
pub mod MachineLemmas
