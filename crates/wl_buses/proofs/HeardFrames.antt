pub mod Alike
pub mod Starting
pub mod OneMore
pub mod Joining
pub mod Listening
pub mod Room
pub mod Others
