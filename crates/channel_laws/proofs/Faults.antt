pub mod Judging
pub mod Following
pub mod Taking
pub mod AllCalls
pub mod Closed
pub mod Awaiting
pub mod Faulty
pub mod Calling
