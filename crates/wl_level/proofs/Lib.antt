mod Places
mod FirstPlace
mod Rows
mod ByTick
pub mod Callers
