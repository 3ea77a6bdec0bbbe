mod ChangeProofs
mod LineProofs
mod NearProofs
mod OutcomeProofs
mod QuantumProofs
mod RestProofs
mod Rows
mod CheckProofs
mod EqualProofs
mod FewProofs
mod GuessProofs
mod GuessRows
mod GroupingProofs
mod SoundProofs
pub mod Callers
