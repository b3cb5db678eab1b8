pub use Rattle.cache_learning.specs.Lessons
pub mod Rows
pub mod StoreValue
pub mod Learning
pub mod Taken
pub mod Laws
