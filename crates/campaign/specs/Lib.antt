pub mod Books
pub mod Marks
pub mod Standings
pub mod Limits
pub mod Rules
pub mod Ledgers
pub mod Histories
pub mod Tallies
