pub mod PastLemmas
pub mod PathLemmas
pub mod AddedLemmas
