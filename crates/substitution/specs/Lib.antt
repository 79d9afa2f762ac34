pub mod Covering
pub mod Masking
pub mod Heard
