pub mod Found
pub mod Laws
pub mod Lines
pub mod Text
pub mod Reading
pub mod Joined
pub mod Whole
