pub mod Rewrites
pub mod Frames
