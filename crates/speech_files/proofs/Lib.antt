pub mod FrameFaults
pub mod Decoding
pub mod DecodeEnds
pub mod Encoding
pub mod EncodeEnds
