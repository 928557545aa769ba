pub mod EntryLists
pub mod FileLemmas
pub mod PrefixLemmas
pub mod FaultLemmas
pub mod RunLemmas
pub mod WholeFiles
