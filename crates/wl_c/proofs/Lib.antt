mod Direct
mod Ending
mod Reading
