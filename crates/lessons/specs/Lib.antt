pub mod Paths
pub mod Plans
pub mod Taken
pub mod Fitting
pub mod Lessons
pub mod Seen
