pub mod Pairs
pub mod Search
