pub mod Comparing
pub mod Levelling
pub mod Undating
pub mod SeenAttempts
pub mod Stepping
pub mod LevelledSteps
pub mod SeenSteps
pub mod LeaseLog
