mod Joined
mod Parts
mod Rows
