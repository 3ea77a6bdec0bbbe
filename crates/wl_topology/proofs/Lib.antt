pub mod Callers
mod Driven
mod Pairs
mod Nearest
mod Kept
mod Equal
mod Accepted
mod Rows
