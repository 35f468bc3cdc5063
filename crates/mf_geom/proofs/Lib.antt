pub mod Areas
pub mod Crossings
pub mod FirstFaults
mod FirstPlaces
mod OneFault
pub mod Headings
pub mod PartialSums
mod Passed
pub mod Products
pub mod Sums
mod Worked
