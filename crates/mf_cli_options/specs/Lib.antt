pub mod Faults
pub mod Messages
pub mod Options
pub mod Values
