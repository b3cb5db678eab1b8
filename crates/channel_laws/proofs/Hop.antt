pub mod Stopping
pub mod Coming
pub mod Closing
pub mod Waiting
pub mod Opening
pub mod Standing
