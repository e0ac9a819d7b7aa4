-- what a reader believes, in reading order
pub mod Home
pub mod Steps
pub mod Asking
pub mod Asked
pub mod Printouts
pub mod Batches
pub mod Reverting
pub mod Writing
pub mod Requests
pub mod Making
pub mod Outcomes
pub mod Attempts
pub mod States
pub mod Machine
pub mod Answers
pub mod Stands
pub mod Guarantee
pub mod Through
pub mod Laws
pub mod Memory
-- what serves proofs
pub mod proving
