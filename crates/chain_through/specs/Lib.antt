pub mod Calling
pub mod Through
pub mod Endings
