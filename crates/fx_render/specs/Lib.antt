pub mod Blocks
pub mod Effected
pub mod Reading
