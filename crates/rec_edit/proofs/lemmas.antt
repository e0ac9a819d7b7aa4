pub mod layouts
pub mod scripts
pub mod blocks
pub mod outcomes
pub mod examples
pub mod records
pub mod insertions
pub mod automatic
