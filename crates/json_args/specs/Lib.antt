pub mod Kinds
pub mod Parts
pub mod PartsLaws
pub mod Unescaped
