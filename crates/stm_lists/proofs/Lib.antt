pub mod Segments
pub mod Changes
pub mod Counts
pub mod Steps
pub mod Operations
pub mod Viewed
pub mod Cloned
