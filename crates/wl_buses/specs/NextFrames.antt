pub mod NextStarts
pub mod NextNodes
pub mod Frames
pub mod Runs
pub mod Lines
pub mod Queues
pub mod Silence
