pub mod Holds
pub mod Taught
pub mod Typed
pub mod Laws
pub mod Listening
pub mod StoredLaws
