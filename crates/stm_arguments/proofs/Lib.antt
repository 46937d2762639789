pub mod CuttingLemmas
pub mod NumberLemmas
pub mod RangeLemmas
pub mod TopicLemmas
pub mod WordLemmas
