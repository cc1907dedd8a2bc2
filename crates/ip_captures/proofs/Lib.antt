mod NumberLemmas
mod PieceLemmas
mod RecordLemmas
mod OptionLemmas
mod BlockLemmas
mod BlockLists
mod CaptureLemmas
mod WriterLemmas
