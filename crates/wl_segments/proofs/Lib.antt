pub mod Tolerance
mod Rows
