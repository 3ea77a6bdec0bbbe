pub mod Takes
pub mod Decisions
