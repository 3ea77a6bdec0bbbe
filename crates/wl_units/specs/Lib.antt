pub mod Decimals
pub mod Units
pub mod Ratios
pub mod Scales
