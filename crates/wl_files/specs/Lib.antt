pub mod Files
pub mod Scripts
