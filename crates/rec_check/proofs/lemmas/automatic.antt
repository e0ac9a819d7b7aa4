pub mod CounterLemmas
pub mod NextLemmas
pub mod CountLemmas
