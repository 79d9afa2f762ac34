pub mod Accepted
pub mod Within
mod Numerals
pub mod Rows
pub mod Words
pub mod Runs
pub mod Places
pub mod Flags
pub mod Ends
pub mod Program
pub mod DecodeLines
pub mod VerifyLines
pub mod MakeLines
pub mod RenderLines
pub mod SimulateRows
pub mod SimulateLines
pub mod ServeRows
pub mod ServeLines
