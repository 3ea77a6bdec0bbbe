mod Words
mod Written
mod SettingsFound
mod AppliedFound
mod Moving
mod TraceFound
