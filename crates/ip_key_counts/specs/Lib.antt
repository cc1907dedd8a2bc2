pub mod Counts
pub mod Entry
pub mod Table
