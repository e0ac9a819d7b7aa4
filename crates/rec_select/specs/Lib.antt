-- what a reader believes, in reading order
pub mod FieldValues
pub mod Selection
pub mod Printing
pub mod Taken
pub mod Info
pub mod Report
-- what serves proofs
pub mod proving
