pub mod NumbersValue
pub mod Numbers
pub mod Channels
pub mod Lending
