pub mod BatchLemmas
pub mod BlockLemmas
pub mod ChainLemmas
pub mod PlainLemmas
pub mod SumLemmas
