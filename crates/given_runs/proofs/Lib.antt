mod CaptureLemmas
mod DueLemmas
mod RehearsalLemmas
mod RunLemmas
mod TextLemmas
