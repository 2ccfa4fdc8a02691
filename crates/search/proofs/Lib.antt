pub mod Pigeonhole
pub mod Paths
pub mod Reaches
pub mod Least
pub mod Steps
pub mod Runs
