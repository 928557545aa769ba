pub mod Attached
pub mod ListChanges
pub mod ListData
pub mod Walks
