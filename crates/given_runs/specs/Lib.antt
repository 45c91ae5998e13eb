pub mod Due
pub mod Inputs
pub mod Written
pub mod Starting
