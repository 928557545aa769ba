pub mod ClipFrames
pub mod ConverterData
pub mod FilePages
pub mod SceneClipData
pub mod Walked
pub mod Unchanged
