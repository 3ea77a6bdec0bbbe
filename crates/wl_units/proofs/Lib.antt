mod Terms
mod Steps
mod Rows
