pub mod Drawings
pub mod Easels
pub mod Endings
pub mod Fonts
pub mod Messages
pub mod Pages
pub mod Performances
pub mod Plates
