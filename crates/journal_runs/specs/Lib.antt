pub mod Render
pub mod Verify
pub mod VerifyRuns
pub mod Make
