pub mod Pulses
pub mod History
pub mod LongTerm
pub mod LagSearch
pub mod Weighting
pub mod PulseCodes
pub mod SubFrame
