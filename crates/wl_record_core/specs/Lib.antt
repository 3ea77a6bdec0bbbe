pub mod Limits
pub mod Slots
pub mod TableLaws
pub mod Text
pub mod Truth
pub mod Within
