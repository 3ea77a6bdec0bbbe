pub mod Pieces
pub mod Sentences
pub mod Paces
pub mod Reasons
pub mod Noise
pub mod Margins
pub mod Standings
