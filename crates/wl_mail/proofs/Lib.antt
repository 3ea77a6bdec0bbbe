mod Counts
mod Keeping
mod News
mod Taken
mod TruthTests
