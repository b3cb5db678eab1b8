pub mod Answers
pub mod Events
pub mod Limits
pub mod Parts
pub mod ReadingLaws
pub mod Rows
pub mod Sizes
pub mod Written
