pub mod Contexts
pub mod Registers
pub mod TheLaws
