pub mod Refusing
pub mod Telling
pub mod Numbered
pub mod Spoken
pub mod Taken
pub mod Pasts
pub mod Sending
pub mod Serving
