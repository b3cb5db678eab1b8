pub mod Blocks
pub mod Store
pub mod Laws
pub mod Likeness
pub mod Filed
pub mod Owners
pub mod Walks
