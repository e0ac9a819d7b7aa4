pub mod Points
pub mod Places
pub mod Moments
pub mod Calls
pub mod Fresh
pub mod Memory
pub mod Escapes
mod LeavingExamples
mod EscapeExamples
