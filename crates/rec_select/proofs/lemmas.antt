pub mod selection
pub mod printing
pub mod info
