pub mod Asking
pub mod Buffers
pub mod DueAsks
pub mod Filling
pub mod HeardLists
pub mod Meeting
