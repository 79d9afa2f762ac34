pub mod Journals
pub mod Reporting
pub mod Runs
pub mod Takes
pub mod Turns
