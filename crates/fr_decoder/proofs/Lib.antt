pub mod DeemphasisLaws
pub mod FrameLaws
pub mod SpeechLaws
pub mod CarryLaws
