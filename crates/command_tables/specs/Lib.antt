pub mod Arguments
pub mod Canonical
pub mod Places
pub mod Reading
pub mod ReadingLaws
pub mod Rows
pub mod Written
