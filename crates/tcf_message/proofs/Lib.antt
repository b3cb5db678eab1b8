pub mod FieldLaws
pub mod LevelLaws
pub mod MessageLaws
pub mod WholeLaws
pub mod PutLaws
pub mod TheLaws
