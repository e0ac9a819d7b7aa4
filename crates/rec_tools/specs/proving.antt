-- What serves proofs.
pub mod Editing
pub mod Listed
pub mod Courses
pub mod Adopting
pub mod Logs
pub mod Silently
pub mod Moving
pub mod Finding
pub mod Reverting
