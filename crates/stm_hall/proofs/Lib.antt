pub mod Opening
pub mod VouchLemmas
pub mod CommitEntries
pub mod CallLemmas
pub mod Keeping
pub mod TrueReads
pub mod ChangedAbove
