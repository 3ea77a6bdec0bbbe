mod Between
mod Bus
mod Deeds
mod Events
mod LostSteps
mod Losers
mod Quiet
mod Stuffing
mod Tail
mod Winners
mod Passages
mod FramePassages
mod Lengths
mod Run
mod Rows
pub mod Callers
