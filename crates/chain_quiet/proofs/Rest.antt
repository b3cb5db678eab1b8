pub mod Facts
pub mod Meeting
pub mod Marks
pub mod Resting
pub mod LastHop
pub mod AddHop
pub mod Ways
