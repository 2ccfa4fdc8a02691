pub mod Lists
pub mod Machines
pub mod Sequences
pub mod Outputs
pub mod Products
pub mod Slices
pub mod Refusals
pub mod Pins
