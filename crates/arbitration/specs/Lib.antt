pub mod Arbitration
pub mod Spans
pub mod Choices
pub mod Ways
pub mod Laws
pub mod Frames
pub mod Senders
pub mod Plans
