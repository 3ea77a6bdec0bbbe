pub mod Lines
pub mod Tasks
pub mod Orders
