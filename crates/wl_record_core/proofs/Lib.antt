mod TableProofs
mod WithinProofs
mod TruthProofs
mod Rows
pub mod Callers
