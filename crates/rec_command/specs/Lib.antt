-- what the words of a command line ask for, what a command ends with, and what it means
pub mod Usage
pub mod Words
pub mod Refusals
pub mod Status
-- what serves proofs
pub mod proving
