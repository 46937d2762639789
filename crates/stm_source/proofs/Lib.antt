pub mod BlockLemmas
pub mod SourceLemmas
mod PlaceLemmas
pub mod StepLemmas
pub mod WantedLemmas
