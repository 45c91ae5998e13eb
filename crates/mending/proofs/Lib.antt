pub mod EditLemmas
pub mod FaultPlaces
pub mod NumberLemmas
pub mod Places
pub mod TableLemmas
