mod Gathering
mod MergeLaws
mod NamedNodes
mod Working
mod PageProofs
mod Explaining
mod OutputLemmas
mod Answering
pub mod Callers
mod TextReading
