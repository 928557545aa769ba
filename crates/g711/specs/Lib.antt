pub mod Code
pub mod ALaw
pub mod MuLaw
