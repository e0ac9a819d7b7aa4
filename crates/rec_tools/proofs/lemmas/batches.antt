pub mod BatchLemmas
pub mod SameTaskLemmas
pub mod TaskLemmas
