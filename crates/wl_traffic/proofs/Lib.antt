mod Growing
mod Lines
mod Loads
mod Marking
mod Quanta
mod Rows
mod Watching
