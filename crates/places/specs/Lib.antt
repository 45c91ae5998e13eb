pub mod Offers
pub mod Parts
pub mod Places
