pub mod Floors
pub mod DarkCells
pub mod Darkness
pub mod DotsInWindow
pub mod FrameLines
pub mod Painting
pub mod Windows
