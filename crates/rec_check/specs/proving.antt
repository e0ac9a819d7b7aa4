-- What serves proofs.
pub mod Steps
pub mod Flaws
pub mod Reading
pub mod Patterns
pub mod Kinds
pub mod Resolved
pub mod Fitting
pub mod Testing
pub mod Tests
pub mod Names
pub mod Keys
pub mod Singulars
pub mod NamesSeen
pub mod Constraints
pub mod Ready
