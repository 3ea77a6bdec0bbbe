mod Sums
mod Windows
mod Waits
mod Cases
mod Instances
mod Rows
