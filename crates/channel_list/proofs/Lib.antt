pub mod Differing
pub mod Places
pub mod Numbering
pub mod Told
