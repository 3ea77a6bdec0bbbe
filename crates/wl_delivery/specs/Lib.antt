pub mod Joining
pub mod Messages
pub mod Instances
pub mod Deliveries
pub mod Laws
