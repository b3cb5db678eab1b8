pub mod Heard
pub mod Coherent
