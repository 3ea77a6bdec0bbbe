pub mod Expected
pub mod Levels
pub mod Plans
pub mod Queues
