mod Alone
mod Celled
mod Coloured
mod Growing
