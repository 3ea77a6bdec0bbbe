mod Starts
mod Rows
