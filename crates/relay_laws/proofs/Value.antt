pub mod Readable
pub mod Telling
pub mod Rows
pub mod Steps
pub mod Few
pub mod Traffic
