pub mod TraceLemmas
pub mod GrammarSound
pub mod GrammarComplete
pub mod TraceFaults
pub mod StoreLemmas
pub mod AuditLemmas
pub mod PrintLemmas
pub mod Keeping
