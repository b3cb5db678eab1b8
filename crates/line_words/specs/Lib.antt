pub mod Exact
pub mod Left
pub mod Words
