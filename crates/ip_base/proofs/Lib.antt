pub mod ChecksumLemmas
pub mod AddressLemmas
pub mod BaseLemmas
pub mod ReadingLemmas
