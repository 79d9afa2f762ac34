pub mod Steps
pub mod Counting
pub mod Events
pub mod Playbacks
pub mod Sofar
pub mod Ends
