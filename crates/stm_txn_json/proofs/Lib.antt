pub mod WordLemmas
pub mod PartLemmas
pub mod GrammarSound
pub mod GrammarComplete
pub mod TxnFaults
