mod WordLemmas
mod FaultLemmas
pub mod LayoutLemmas
mod FrameLemmas
pub mod StateLemmas
mod RunLemmas
