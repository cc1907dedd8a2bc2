pub mod Run
pub mod Pending
pub mod Room
pub mod Written
pub mod Arrived
pub mod Piece
pub mod Ipv4
pub mod Ipv6
