pub mod Lessons
pub mod HubTruth
