pub mod LimitLemmas
pub mod WeightLemmas
pub mod WriteLemmas
pub mod LatestLemmas
pub mod TableLemmas
pub mod ListLemmas
pub mod SameLemmas
