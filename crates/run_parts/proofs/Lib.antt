pub mod DeviceLemmas
pub mod RunLemmas
pub mod PlanTextLemmas
