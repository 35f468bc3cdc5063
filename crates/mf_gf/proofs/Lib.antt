pub mod BlackBoxes
pub mod BlackDots
mod BoxOfDots
mod BoxesInRange
mod CharactersRead
mod DrawnRows
mod Endings
mod EqualRows
mod Escapements
mod FontBoxes
mod FontNumbersRead
mod LocatorTexts
mod LocatorsRead
mod PostFound
mod ReadBack
mod Shipped
mod ShortBoxes
mod SpelledRows
mod TailTexts
mod Writing
