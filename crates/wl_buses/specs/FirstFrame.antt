pub mod FirstStarts
pub mod FirstFrames
pub mod Faults
