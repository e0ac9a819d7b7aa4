pub mod PutsLemmas
pub mod ShowLemmas
pub mod InformLemmas
pub mod CheckLemmas
pub mod ListedLemmas
pub mod LogLemmas
pub mod ShownLemmas
