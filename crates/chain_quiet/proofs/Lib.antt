pub mod Rest
pub mod Hops
pub mod TheLaws
