-- what an explanation is made of
pub mod Lines
