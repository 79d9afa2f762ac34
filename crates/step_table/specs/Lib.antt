pub mod Packed
pub mod Kinds
pub mod WordLaws
pub mod Ends
pub mod Inside
