pub mod BlockLemmas
pub mod SiteLemmas
pub mod TurnLemmas
