pub mod Balance
pub mod Desks
pub mod PageOrder
pub mod Posts
pub mod Readers
pub mod Tapes
pub mod Workers
