pub mod Words
pub mod Kinds
pub mod Nets
pub mod Passes
pub mod Rules
pub mod GateLists
pub mod TakingIn
pub mod Soundness
