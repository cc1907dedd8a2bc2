pub mod LongestLemmas
pub mod ParseLemmas
pub mod FaultLemmas
pub mod RequestFaultLemmas
pub mod SameLemmas
pub mod Ipv4Lemmas
