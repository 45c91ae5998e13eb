pub mod LevelLemmas
pub mod LawLemmas
pub mod RunLemmas
pub mod ComingLemmas
pub mod EndedLemmas
