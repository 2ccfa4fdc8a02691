pub mod Tests
pub mod Ways
pub mod Reached
pub mod Shown
pub mod Printed
