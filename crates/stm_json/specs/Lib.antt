pub mod Bytes
pub mod CauseNames
pub mod Elements
pub mod Faults
pub mod Parts
pub mod Outcome
pub mod Returns
