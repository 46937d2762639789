pub mod Explaining
pub mod Marks
pub mod Positions
pub mod Words
pub mod Saying
