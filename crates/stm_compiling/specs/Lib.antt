pub mod Command
pub mod Faults
pub mod Notes
pub mod Parts
pub mod Programs
pub mod Wholes
