pub mod Header
pub mod Samples
