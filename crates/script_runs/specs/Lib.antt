pub mod Calls
pub mod Counts
pub mod TurnLines
pub mod Playing
pub mod Simulate
pub mod Applies
pub mod Ran
