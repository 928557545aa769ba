pub mod Effected
pub mod Frames
