pub mod ViewLemmas
pub mod StepLemmas
pub mod SeatLemmas
pub mod OpeningLemmas
pub mod FinishLemmas
