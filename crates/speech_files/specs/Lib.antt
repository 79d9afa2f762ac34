pub mod Decode
pub mod DecodeRuns
pub mod Encode
pub mod EncodeRuns
