pub mod Beside
pub mod Ends
pub mod Frames
pub mod Same
pub mod Muted
