pub mod Pulses
