pub mod Bounded
pub mod Devices
pub mod HostLaws
pub mod Limits
pub mod Readings
pub mod Scripts
