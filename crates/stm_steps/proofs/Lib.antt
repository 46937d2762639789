pub mod SameValues
pub mod IntegerRange
pub mod WrittenNumber
pub mod PlaceLemmas
pub mod Entries
pub mod SearchedLemmas
