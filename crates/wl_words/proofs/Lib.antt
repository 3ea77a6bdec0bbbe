mod Alone
mod Found
mod Naming
mod Rows
mod Tabled
mod Words
mod Spiked
