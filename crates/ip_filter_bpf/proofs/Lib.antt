mod BlockLemmas
mod PacketLemmas
mod FieldLemmas
mod TestLemmas
mod StartLemmas
mod LeadLemmas
mod VerdictLemmas
