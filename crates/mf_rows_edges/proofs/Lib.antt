pub mod EdgeChanges
pub mod EdgeMaps
pub mod EdgesAt
pub mod EdgesLemmas
pub mod EdgeSums
pub mod Falls
pub mod ReachesLemmas
pub mod Sources
