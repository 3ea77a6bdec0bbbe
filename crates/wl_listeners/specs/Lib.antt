pub mod Parts
pub mod Listeners
pub mod Wires
pub mod Heard
pub mod BusParts
