pub mod AcceptLemmas
pub mod LineLemmas
pub mod NoFloats
pub mod TallyLemmas
