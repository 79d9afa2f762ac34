pub mod ReadJournals
pub mod Refuted
pub mod VerifyEnds
pub mod OrderLines
