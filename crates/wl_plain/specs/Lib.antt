pub mod Tables
pub mod Measures
pub mod Clocks
pub mod Nodes
pub mod Noise
pub mod Documents
pub mod Asking
