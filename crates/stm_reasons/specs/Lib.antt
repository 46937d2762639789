pub mod Counters
pub mod Looks
pub mod Causes
pub mod Reasons
