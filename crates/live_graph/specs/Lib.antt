pub mod Blanks
pub mod BoardHistories
pub mod Dials
pub mod InputEditors
pub mod Parts
pub mod Passes
pub mod Runs
pub mod Stages
