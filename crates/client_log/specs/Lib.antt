pub mod Lessons
pub mod Cached
pub mod Places
pub mod Shown
