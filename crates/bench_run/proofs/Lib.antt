pub mod PlayerLemmas
pub mod WonLemmas
pub mod OneRunLemmas
pub mod RehearsalLemmas
pub mod StarterLemmas
pub mod Crossing
