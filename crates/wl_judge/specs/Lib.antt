pub mod Judgements
pub mod Weakest
pub mod Trials
pub mod Measures
pub mod Answers
pub mod Laws
pub mod Plans
