pub mod WordLemmas
pub mod MarkLemmas
pub mod ExplainLemmas
pub mod PieceLemmas
pub mod LineLemmas
