pub mod OneSender
pub mod Plans
pub mod Through
pub mod Tolerances
pub mod Bounds
pub mod Clean
