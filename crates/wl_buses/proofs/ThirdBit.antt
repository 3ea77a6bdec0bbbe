pub mod After
pub mod Following
pub mod Lasting
pub mod Outset
pub mod Rows
