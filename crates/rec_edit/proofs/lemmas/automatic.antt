pub mod FilledLemmas
pub mod AutoFillLemmas
pub mod NumberLemmas
pub mod FillLemmas
