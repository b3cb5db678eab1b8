pub mod Redirects
pub mod Faults
pub mod Rest
pub mod Meeting
pub mod Numbering
pub mod Asking
pub mod Hop
pub mod Filling
