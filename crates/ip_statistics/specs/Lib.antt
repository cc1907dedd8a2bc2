pub mod Counts
pub mod HeaderCounts
pub mod Lengths
pub mod Statistics
pub mod Packet
pub mod Lists
pub mod Capture
