pub mod Plans
pub mod Fits
pub mod Silences
