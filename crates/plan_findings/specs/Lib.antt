pub mod Unchecked
