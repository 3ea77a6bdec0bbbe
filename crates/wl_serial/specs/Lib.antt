pub mod Engine
pub mod Guess
pub mod LineAt
pub mod Outcome
pub mod QuietLine
pub mod Records
pub mod Running
pub mod Stretch
