pub mod CallLemmas
pub mod MemoryLemmas
pub mod AttemptLemmas
pub mod ExitLemmas
