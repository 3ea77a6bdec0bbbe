pub mod Edges
pub mod Bits
pub mod Running
pub mod SampleLaws
pub mod Skips
pub mod Steps
