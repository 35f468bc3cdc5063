mod AxisSums
mod Faults
mod Leaving
mod MovedTotals
pub mod Operations
mod OutOfField
mod ScaleSources
mod Scaling
mod Sides
mod Squares
