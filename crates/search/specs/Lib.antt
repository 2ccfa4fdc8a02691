pub mod Graphs
pub mod Visits
pub mod Searches
pub mod Errors
pub mod Answers
