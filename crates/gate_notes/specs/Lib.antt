pub mod Exchange
pub mod Notes
pub mod Outcomes
pub mod Pages
pub mod Statuses
