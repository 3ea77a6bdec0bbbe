pub mod Lines
pub mod FirstForm
mod Rows
