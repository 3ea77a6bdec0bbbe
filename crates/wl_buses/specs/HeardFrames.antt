pub mod Joined
pub mod Listening
pub mod Room
