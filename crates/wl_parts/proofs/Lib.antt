pub mod Callers
mod Answered
mod Checks
mod Digits
mod Ends
mod Growing
mod Joining
mod PartTexts
mod Strings
mod Wholes
