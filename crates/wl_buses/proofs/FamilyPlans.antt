pub mod Least
pub mod Roomy
pub mod Standing
pub mod Waiting
