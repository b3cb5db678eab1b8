pub mod Event
pub mod Told
pub mod Script
pub mod Scripted
