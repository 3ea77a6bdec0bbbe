pub mod Wire
pub mod InStep
pub mod Heads
pub mod Begins
pub mod Winner
pub mod Outcome
