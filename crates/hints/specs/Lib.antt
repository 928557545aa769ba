pub mod FileHints
pub mod ScriptHints
pub mod StatusHints
