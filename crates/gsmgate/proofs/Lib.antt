pub mod Lines
pub mod JournalNames
pub mod Opening
