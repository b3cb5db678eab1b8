pub mod ServingValue
pub mod Lines
pub mod Serving
pub mod Client
pub mod Left
pub mod Run
pub mod Begun
