pub mod Levelled
pub mod Seen
pub mod Leases
