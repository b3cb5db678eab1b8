pub mod Stream
pub mod Value
pub mod Feeding
pub mod Progress
pub mod Fed
pub mod Laws
