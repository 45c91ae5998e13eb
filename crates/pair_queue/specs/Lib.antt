pub mod Dispatch
pub mod Hands
pub mod Opening
pub mod Returns
pub mod Rule
pub mod Seats
pub mod Settling
pub mod Steps
