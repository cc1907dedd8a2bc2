pub mod CountLemmas
pub mod LengthLemmas
pub mod HeaderLemmas
pub mod MergeLemmas
