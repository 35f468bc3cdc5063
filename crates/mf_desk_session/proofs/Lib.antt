pub mod OneTranscript
pub mod Performing
mod SomeAnswer
mod Standing
pub mod WithoutContour
