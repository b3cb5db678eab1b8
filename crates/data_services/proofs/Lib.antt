pub mod Ranges
pub mod PartSteps
pub mod Lawful
pub mod Threads
pub mod Short
pub mod TheLaws
