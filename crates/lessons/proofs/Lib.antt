pub mod SplitLemmas
pub mod PathLemmas
pub mod MeaningLemmas
pub mod MarkLemmas
pub mod PossiblePaths
pub mod FittingLemmas
pub mod SeenLemmas
pub mod LearningLemmas
