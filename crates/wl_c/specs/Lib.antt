pub mod Calls
pub mod Made
pub mod Orders
pub mod Statuses
pub mod Texts
