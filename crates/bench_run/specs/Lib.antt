pub mod Filled
pub mod Players
pub mod Lines
pub mod Starters
pub mod Rehearsals
pub mod Outcomes
