pub mod Answers
pub mod Places
pub mod Now
pub mod CommitTxn
pub mod Committed
pub mod Conflicts
pub mod Laws
