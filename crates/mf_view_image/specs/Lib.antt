pub mod Boxes
pub mod Names
pub mod Pgm
pub mod Reading
pub mod Svg
