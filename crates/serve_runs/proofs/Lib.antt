pub mod LinkLines
pub mod ServeCauses
