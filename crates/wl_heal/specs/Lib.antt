pub mod Silence
pub mod Costs
pub mod Joining
pub mod Healing
pub mod Disturbed
pub mod Bursts
