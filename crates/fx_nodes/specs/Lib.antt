pub mod Blocks
pub mod Effects
pub mod Forms
pub mod Samples
pub mod Slopes
pub mod Stages
pub mod Words
