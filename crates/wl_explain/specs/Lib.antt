pub mod Figures
pub mod Doubts
pub mod Words
pub mod Waits
pub mod Condition
pub mod Remedies
pub mod Refusals
