pub mod Games
pub mod Laws
pub mod Plays
pub mod Refusals
pub mod Starters
pub mod Tallies
pub mod Words
