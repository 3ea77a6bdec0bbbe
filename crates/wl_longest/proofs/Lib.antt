mod Steps
mod Walked
mod Counted
mod Headers
mod Heads
mod Rows
pub mod Callers
