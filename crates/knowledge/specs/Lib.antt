pub mod Changes
pub mod Facts
pub mod Keyed
pub mod KnowledgeValue
pub mod Laws
pub mod Learning
pub mod Reply
pub mod Rows
