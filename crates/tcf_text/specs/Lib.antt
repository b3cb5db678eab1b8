pub mod Log
pub mod Shown
pub mod Each
pub mod Lines
pub mod Once
pub mod Said
pub mod Reading
