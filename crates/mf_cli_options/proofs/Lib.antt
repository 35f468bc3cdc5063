mod Faults
mod Messages
mod ValuesRead
pub mod ValuesTyped
