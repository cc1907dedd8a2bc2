pub mod Batch
pub mod Blocks
pub mod Plain
pub mod Packets
