pub mod Driving
pub mod AtOnce
pub mod WorldCommits
