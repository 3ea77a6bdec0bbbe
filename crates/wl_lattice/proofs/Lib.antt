pub mod Lists
pub mod OrderLaws
pub mod MapSlots
