mod Making
mod Printing
mod Rows
