pub mod Handed
pub mod Laws
pub mod Posts
pub mod Senders
pub mod Truth
