mod UnitLemmas
pub mod PaceLemmas
pub mod KeepingPace
pub mod FirstQuanta
pub mod Judged
pub mod Said
mod Rows
pub mod Callers
