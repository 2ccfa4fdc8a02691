pub mod Pairs
pub mod Listing
pub mod Replays
pub mod States
pub mod Tables
pub mod FirstOf
pub mod Flaws
pub mod Closed
