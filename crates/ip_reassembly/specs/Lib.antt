pub mod Fragment
pub mod Payload
pub mod Refusal
pub mod Received
pub mod Split
pub mod Marks
pub mod Run
pub mod Reassembly
