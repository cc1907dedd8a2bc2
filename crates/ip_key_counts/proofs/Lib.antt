pub mod LinkLemmas
pub mod EntryLemmas
pub mod TableLemmas
pub mod CountLemmas
pub mod MergeLemmas
pub mod TotalLemmas
