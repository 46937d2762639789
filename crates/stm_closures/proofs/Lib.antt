pub mod OneBase
pub mod Commits
pub mod HallCommits
