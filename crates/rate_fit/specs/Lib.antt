pub mod Conversion
pub mod Points
pub mod Walk
pub mod Blend
pub mod Channels
