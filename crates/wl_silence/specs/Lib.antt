pub mod Restarts
pub mod Silences
pub mod SilentPlans
pub mod Shown
