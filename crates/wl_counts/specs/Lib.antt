pub mod Counts
pub mod Waits
pub mod Cases
pub mod Instances
