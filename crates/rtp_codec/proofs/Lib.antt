pub mod Signed
pub mod Written
