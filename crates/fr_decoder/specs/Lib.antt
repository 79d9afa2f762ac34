pub mod Deemphasis
pub mod Speech
pub mod Decoding
