pub mod Preprocessing
pub mod ShortTerm
pub mod Fronting
pub mod Excitation
pub mod Coding
pub mod Sameness
