pub mod Callers
mod Found
mod Frames
mod Growing
mod Joining
mod Parts
mod Placed
mod Rows
mod Shares
mod Varied
mod Working
