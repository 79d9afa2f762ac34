pub mod Said
pub mod Values
pub mod Table
pub mod Lines
pub mod Ranges
pub mod Plain
