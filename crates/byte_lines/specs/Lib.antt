pub mod Bytes
pub mod Lines
pub mod Views
pub mod Decoded
pub mod Writing
pub mod DecodedRuns
