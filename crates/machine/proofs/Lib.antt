pub mod All
pub mod Letters
pub mod Orders
pub mod Ranges
