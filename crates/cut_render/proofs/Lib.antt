pub mod Frames
pub mod LongNumbers
pub mod Sizes
pub mod Written
