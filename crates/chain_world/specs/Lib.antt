pub mod ChainValue
pub mod Chain
pub mod WorldValue
pub mod World
pub mod Past
pub mod Standing
pub mod Remembering
pub mod Until
