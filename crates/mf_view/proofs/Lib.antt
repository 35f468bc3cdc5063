mod Drawn
mod Images
mod Pages
mod Reports
mod Shown
