pub mod Codes
pub mod CodeNames
pub mod CodeWords
pub mod EndLayer
