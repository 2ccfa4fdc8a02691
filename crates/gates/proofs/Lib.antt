pub mod Checking
pub mod Holding
pub mod Passing
pub mod Reading
pub mod Settling
pub mod Writing
