pub mod EffectWords
pub mod Lines
pub mod NamedClips
pub mod NamedFiles
pub mod Outcomes
pub mod RenderedOutcomes
pub mod Sets
