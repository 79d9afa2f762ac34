pub mod FrameNumber
