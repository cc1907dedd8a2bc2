pub mod SpanLemmas
pub mod PacketPartsLemmas
pub mod WrittenLemmas
mod RoutingLemmas
