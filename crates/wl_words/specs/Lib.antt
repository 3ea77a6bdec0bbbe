pub mod Spikes
pub mod CommandLine
pub mod Options
pub mod Asked
