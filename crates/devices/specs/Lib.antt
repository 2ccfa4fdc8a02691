pub mod Cells
pub mod Tables
pub mod TakingIn
pub mod Soundness
