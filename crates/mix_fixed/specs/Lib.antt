pub mod Kernels
pub mod Sound
