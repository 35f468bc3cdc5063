mod AfterBytes
mod Ended
mod Intakes
mod LongLines
pub mod Performances
mod ScriptEnds
mod Showing
mod ViewerLines
