pub mod Chain
pub mod Counted
pub mod KeyBytes
