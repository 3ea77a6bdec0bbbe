mod Told
mod Runs
mod Following
mod Taken
mod Added
mod Replayed
mod InTime
mod Syncing
mod Starting
pub mod Callers
mod Passing
mod Kept
mod RunOver
mod Skipping
mod Sampling
mod Leaving
