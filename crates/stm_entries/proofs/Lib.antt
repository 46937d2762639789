pub mod EffectLemmas
pub mod Replaying
pub mod Adding
pub mod LeaseLemmas
pub mod ListedLeases
pub mod Restored
