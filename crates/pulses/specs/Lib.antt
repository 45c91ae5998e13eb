pub mod Pulses
pub mod Laws
pub mod Wires
pub mod Filtering
pub mod Following
