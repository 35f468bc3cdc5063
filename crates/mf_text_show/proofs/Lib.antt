pub mod GridTexts
pub mod PassedPixels
pub mod Pieces
pub mod ShownPixels
pub mod ShownRows
pub mod WrittenRuns
