pub mod Given
pub mod ReadingOn
pub mod Sources
