pub mod Keyed
pub mod Cached
pub mod Changing
pub mod Learned
pub mod Answered
pub mod Lessons
pub mod TheLaws
