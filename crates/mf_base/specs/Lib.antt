pub mod Messages
pub mod Names
