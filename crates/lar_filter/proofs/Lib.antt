pub mod RunLaws
pub mod LatticeLaws
pub mod TraceLaws
pub mod ScaleLaws
pub mod LimitLaws
pub mod RisingLaws
pub mod RisingTraceLaws
