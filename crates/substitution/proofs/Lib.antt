pub mod CoverLaws
pub mod MaskLaws
pub mod VoiceLaws
