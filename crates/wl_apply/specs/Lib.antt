pub mod Answers
pub mod Moves
pub mod Nodes
pub mod Labels
pub mod Applied
