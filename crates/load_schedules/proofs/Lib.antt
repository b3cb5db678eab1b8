pub mod File
pub mod Growth
pub mod Said
pub mod Steps
pub mod Words
pub mod TheLaws
