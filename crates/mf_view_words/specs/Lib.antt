pub mod CommandLine
pub mod Requests
