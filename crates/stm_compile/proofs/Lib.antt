pub mod AnswerLemmas
pub mod BufferLemmas
pub mod AgreeLemmas
pub mod OutcomeLemmas
pub mod ConflictLemmas
