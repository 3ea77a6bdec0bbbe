pub mod BoundedLemmas
mod HostProofs
pub mod Runs
mod Rows
