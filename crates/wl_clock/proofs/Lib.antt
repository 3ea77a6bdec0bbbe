mod Guesses
mod Rows
pub mod Runs
pub mod Ticks
