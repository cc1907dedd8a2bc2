pub mod PlainHeader
pub mod PlainPacket
pub mod PlainDissection
pub mod Digits
pub mod PlainRequest
