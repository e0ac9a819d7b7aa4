pub mod calls
pub mod printing
pub mod batches
pub mod outcomes
pub mod machine
pub mod runs
