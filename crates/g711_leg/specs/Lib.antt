pub mod Best
pub mod BlockLaws
pub mod Codes
pub mod LegLaws
pub mod Legs
pub mod Levels
pub mod OutLaws
