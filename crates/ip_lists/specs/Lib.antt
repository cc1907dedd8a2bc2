pub mod Lists
pub mod Members
pub mod Moves
pub mod Table
