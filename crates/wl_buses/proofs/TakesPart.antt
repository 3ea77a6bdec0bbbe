pub mod Forward
pub mod Losing
pub mod Once
pub mod Takes
pub mod Twelve
