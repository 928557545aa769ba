pub mod Documents
pub mod Edits
pub mod FirstFaults
pub mod Keys
pub mod References
pub mod Rows
pub mod RowsRead
pub mod SceneLaws
