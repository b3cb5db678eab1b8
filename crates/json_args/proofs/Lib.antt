pub mod Json
pub mod Splits
pub mod ReadBack
mod Spared
