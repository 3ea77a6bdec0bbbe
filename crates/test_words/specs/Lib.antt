pub mod Heads
pub mod Lines
pub mod Words
