pub mod PlayLemmas
pub mod WordLemmas
pub mod FieldLemmas
pub mod SlotLemmas
pub mod RunLemmas
pub mod StarterLemmas
