pub mod Bits
pub mod Wishes
pub mod Drafts
pub mod Texts
pub mod Runs
