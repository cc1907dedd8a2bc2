pub mod PartsLemmas
pub mod FaultLemmas
pub mod OnePacketLemmas
pub mod PacketEqualLemmas
