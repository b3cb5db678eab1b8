pub mod Told
pub mod TellsOn
pub mod Sent
