pub mod Blocks
pub mod Fields
pub mod Verdict
pub mod Compiled
