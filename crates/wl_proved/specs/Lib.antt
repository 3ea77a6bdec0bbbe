pub mod Beside
pub mod CleanRuns
pub mod LateEnds
pub mod Listened
pub mod PlansOfFamily
pub mod Words
pub mod Silence
pub mod Waits
