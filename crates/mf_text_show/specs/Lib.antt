pub mod Grid
pub mod Names
pub mod RunsAhead
pub mod RunText
