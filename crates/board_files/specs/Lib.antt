pub mod Files
pub mod Lists
pub mod Given
pub mod Progress
