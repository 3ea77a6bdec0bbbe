mod Reading
mod Asking
