pub mod Answering
pub mod Waiting
pub mod AgentAnswering
pub mod Lacking
