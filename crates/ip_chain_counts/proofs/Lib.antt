pub mod ChainLemmas
pub mod KeyLemmas
