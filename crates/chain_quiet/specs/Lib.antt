pub mod Stuck
pub mod Hops
