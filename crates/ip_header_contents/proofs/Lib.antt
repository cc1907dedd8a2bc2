pub mod OptionLemmas
pub mod RoutingLemmas
