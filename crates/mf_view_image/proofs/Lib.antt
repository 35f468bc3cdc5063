pub mod ImageBoxes
pub mod GrayValues
pub mod PathTexts
pub mod ReadHeads
pub mod ReadPaths
pub mod ReadTexts
pub mod ReadWeights
