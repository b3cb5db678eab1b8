pub mod Images
pub mod Inputs
pub mod Journal
pub mod Read
pub mod Written
