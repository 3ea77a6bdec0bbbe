pub mod Rule
pub mod Places
pub mod Words
pub mod Passes
