pub mod Writing
pub mod Outcomes
pub mod Names
pub mod Told
pub mod Reports
pub mod Sources
