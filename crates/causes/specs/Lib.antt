pub mod Causes
pub mod Families
pub mod Groupings
pub mod Orders
