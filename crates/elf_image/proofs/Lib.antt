pub mod Ranges
pub mod Order
pub mod Placing
pub mod Standing
pub mod Images
pub mod TheLaws
pub mod Answered
