pub mod CommandLine
pub mod Faults
pub mod Messages
pub mod Output
pub use Rattle.mf_cli_options.specs.Values
