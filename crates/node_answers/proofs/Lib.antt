pub mod Adds
pub mod Agents
pub mod Clients
pub mod TheLaws
