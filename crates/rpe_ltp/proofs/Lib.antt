pub mod PulseLaws
pub mod HistoryLaws
pub mod LongTermLaws
pub mod LagLaws
pub mod LaneLaws
pub mod WeightLaws
pub mod PulseCodeLaws
