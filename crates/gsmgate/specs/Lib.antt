pub mod Places
pub mod Commands
pub mod Gateway
pub mod Offline
pub mod Running
