pub mod Noise
