pub mod Sameness
pub mod Rendered
