pub mod Standing
pub mod Naming
pub mod Holding
pub mod Taking
pub mod AllCalls
