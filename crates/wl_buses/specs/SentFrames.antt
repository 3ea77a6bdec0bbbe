pub mod Winners
pub mod Sending
