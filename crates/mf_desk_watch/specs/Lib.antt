pub mod Watchers
pub mod Watching
