pub mod Axes
pub mod Edges
pub mod LawfulWeights
pub mod Merging
pub mod Reaches
pub mod Sums
pub mod WeightMaps
