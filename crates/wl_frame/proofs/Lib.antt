mod Rows
mod Registers
mod Division
mod Spelled
mod Fields
mod Reading
mod HeldFrames
mod OneStuffing
mod Stuffed
mod Deciding
mod Edges
pub mod Callers
