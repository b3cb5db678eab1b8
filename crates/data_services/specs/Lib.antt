pub mod Bytes
pub mod Named
pub mod MemoryRows
pub mod Parts
pub mod RegisterRows
pub mod Commands
pub mod Laws
pub mod Short
