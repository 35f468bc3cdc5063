pub mod Faults
mod KnownTexts
mod Messages
