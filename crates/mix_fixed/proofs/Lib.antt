pub mod Lanes
pub mod Raised
pub mod Rounding
pub mod Settled
