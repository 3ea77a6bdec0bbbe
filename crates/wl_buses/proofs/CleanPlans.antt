pub mod Extending
pub mod Growing
pub mod Nodes
pub mod Passed
pub mod Rows
pub mod Verdicts
