pub mod Redirects
pub mod Faults
pub mod Rest
pub mod Hop
pub mod Filling
pub mod TheLaws
pub mod Entries
