pub mod Search
pub mod Started
pub mod Replaying
