pub mod Clocks
pub mod Flow
pub mod FlowLaws
pub mod LinkScript
pub mod Links
pub mod Memory
