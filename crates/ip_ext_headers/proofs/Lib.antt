pub mod EqualLemmas
pub mod FaultLemmas
pub mod AuthLemmas
