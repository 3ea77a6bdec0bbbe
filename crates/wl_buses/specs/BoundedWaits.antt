pub mod Leaving
pub mod QueuedFrames
pub mod Messages
pub mod Bounds
pub mod LineBounds
pub mod Lasting
