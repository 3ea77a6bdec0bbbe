pub mod Written
pub mod Printable
pub mod Formats
