pub mod Offered
pub mod Open
pub mod Reasons
pub mod Tried
