pub mod FitsLemmas
pub mod AnswerLemmas
pub mod Exts4Lemmas
pub mod PacketLemmas
pub mod DissectLemmas
pub mod LaterLemmas
pub mod FieldLemmas
