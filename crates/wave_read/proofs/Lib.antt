pub mod Finds
pub mod Formats
pub mod ImaBlocks
pub mod Steps
pub mod Waves
pub mod ChunkLists
pub mod Conclusions
pub mod Walks
