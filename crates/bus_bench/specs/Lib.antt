pub mod Hands
pub mod Rule
pub mod Steps
pub mod Seats
pub mod Tickets
pub mod Opening
pub mod Finishing
