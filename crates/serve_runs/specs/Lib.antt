pub mod Running
pub mod Serve
