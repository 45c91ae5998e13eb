pub mod Sinks
pub mod Explaining
pub mod Dumps
pub mod Decoding
pub mod DecoderViews
pub mod Parts
