pub mod RunLemmas
pub mod BitLemmas
pub mod MemoryLemmas
pub mod CheckLemmas
pub mod StepLemmas
pub mod ReturnLemmas
pub mod EncodingLemmas
pub mod AssemblyLemmas
