pub mod Alone
pub mod Cuts
