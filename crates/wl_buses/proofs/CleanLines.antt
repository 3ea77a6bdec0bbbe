pub mod Beginning
pub mod Through
