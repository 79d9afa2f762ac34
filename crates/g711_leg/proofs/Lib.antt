pub mod BackLaws
pub mod BestLaws
pub mod CodeLaws
pub mod LevelLaws
pub mod SampleLaws
pub mod SegmentLaws
pub mod Tables
