pub mod patches
pub mod events
pub mod OutcomeLemmas
pub mod histories
pub mod plans
pub mod texts
