pub mod Walking
pub mod Splitting
pub mod Places
pub mod Unsigned
pub mod Frames
pub mod Spelled
pub mod ReadBack
