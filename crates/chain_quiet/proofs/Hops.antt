pub mod Facts
pub mod Marks
pub mod Connections
pub mod CutHop
pub mod LastHop
pub mod AddHop
pub mod Ways
