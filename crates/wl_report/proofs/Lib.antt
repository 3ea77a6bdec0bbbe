mod Hexadecimal
mod Numbered
mod Rows
mod Sums
pub mod Callers
