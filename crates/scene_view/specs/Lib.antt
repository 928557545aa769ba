pub mod Labels
pub mod Wiring
