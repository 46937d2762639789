pub mod Places
pub mod Schedules
pub mod Keeping
pub mod Scenarios
pub mod Outcomes
pub mod Merges
