pub mod Levels
pub mod ByTick
pub mod Places
