mod Alone
mod Stationed
mod Any
mod Listening
mod Heard
mod Counting
mod Frames
mod Lasting
mod Longest
mod Members
mod Mended
mod Instance
mod Early
mod Emptied
mod Ends
mod Entries
mod Paced
mod Queues
mod Rows
pub mod Owned
pub mod Saying
mod Starting
mod Tables
mod Stuffings
mod Texts
mod Said
mod Bounded
mod OfText
