mod Ordered
mod Rows
mod Waiting
pub mod Longest
pub mod Listing
pub mod Sending
mod AnyData
