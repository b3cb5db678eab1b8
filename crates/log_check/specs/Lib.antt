pub mod Asked
pub mod Barriers
pub mod Heard
pub mod Matching
pub mod Placed
pub mod Rules
pub mod Seen
pub mod Sorts
