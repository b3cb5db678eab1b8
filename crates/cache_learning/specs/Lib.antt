pub mod Lessons
pub mod Kept
pub mod Within
