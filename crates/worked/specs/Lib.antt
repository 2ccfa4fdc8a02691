pub mod Controller
pub mod Cases
pub mod Printing
