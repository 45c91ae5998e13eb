pub mod Logs
pub mod Views
pub mod OrderLemmas
pub mod ReturnLemmas
pub mod SeatLemmas
pub mod StepLemmas
pub mod TakenLemmas
