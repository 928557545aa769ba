pub mod Quantizer
pub mod Decoder
pub mod Blocks
pub mod Faults
pub mod Words
pub mod Frames
