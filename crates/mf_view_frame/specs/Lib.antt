pub mod Canvases
pub mod Cells
pub mod Frames
pub mod Names
pub mod Tiles
pub mod Windows
