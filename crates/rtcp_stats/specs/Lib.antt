pub mod Compound
pub mod Reports
pub mod Writing
pub mod Sequences
pub mod Differences
pub mod Jitter
pub mod Losses
pub mod Statistics
