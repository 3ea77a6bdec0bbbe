pub mod Members
pub mod Aftermaths
pub mod Tallies
pub mod Words
pub mod Asked
