pub mod Writes
pub mod Telling
