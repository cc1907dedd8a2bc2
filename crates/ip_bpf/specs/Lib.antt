pub mod Codes
pub mod Machine
pub mod Joined
pub mod Programs
pub mod Encoding
pub mod Assembly
