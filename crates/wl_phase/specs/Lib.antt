pub mod Clocks
pub mod Ways
pub mod InStep
pub mod Answer
