pub mod OutcomeLemmas
pub mod ElementLemmas
pub mod PartLemmas
pub mod ListLemmas
pub mod FaultLemmas
