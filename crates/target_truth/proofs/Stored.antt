pub mod Found
pub mod Asked
pub mod Registers
pub mod Memory
pub mod Alike
