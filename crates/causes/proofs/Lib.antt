pub mod Exact
pub mod Firsts
pub mod GroupLemmas
pub mod Lookups
pub mod PairNumbers
pub mod Pushes
pub mod SortLemmas
pub mod StepLemmas
