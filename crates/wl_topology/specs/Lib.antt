pub mod Limits
pub mod Delays
pub mod Driven
pub mod Stored
pub mod StoredLaws
pub mod Search
pub mod Same
