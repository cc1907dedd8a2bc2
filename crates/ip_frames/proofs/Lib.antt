pub mod ReadingLemmas
pub mod HeadersLemmas
pub mod PlainLemmas
