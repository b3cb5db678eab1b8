pub mod ClientValue
pub mod Usable
pub mod Lines
pub mod Client
pub mod Runs
pub mod Ends
