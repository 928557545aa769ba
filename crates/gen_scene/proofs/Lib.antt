pub mod Blocks
pub mod Filling
pub mod Pieces
pub mod DrawLemmas
pub mod NoiseLemmas
