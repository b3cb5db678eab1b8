pub mod Relay
pub mod Contained
pub mod ValueTraffic
