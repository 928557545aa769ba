pub mod Places
pub mod Walks
pub mod Sums
pub mod Means
pub mod Blends
pub mod Reciprocals
pub mod OffsetBinary
