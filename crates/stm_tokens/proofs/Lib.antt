pub mod NameLemmas
pub mod PlainLemmas
pub mod QuotedLemmas
pub mod TokenLemmas
