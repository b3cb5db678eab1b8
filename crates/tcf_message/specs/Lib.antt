pub mod Fault
pub mod Message
