pub mod Modes
pub mod Kept
pub mod Settled
pub mod Calms
