pub mod Expecting
pub mod Heads
pub mod Orders
pub mod Rows
pub mod Small
