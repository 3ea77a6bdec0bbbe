pub mod Counting
pub mod Fewer
pub mod Handing
pub mod Joined
pub mod Nexting
pub mod Planned
pub mod Rows
pub mod Winning
