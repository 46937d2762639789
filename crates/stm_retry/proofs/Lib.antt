pub mod CallLemmas
pub mod WatchCalls
pub mod RunnerLemmas
pub mod SlotLemmas
pub mod StepLemmas
pub mod WorldLemmas
pub mod AheadLemmas
pub mod StepDoes
pub mod FetchExchange
pub mod AlikeLemmas
pub mod KeptWorlds
pub mod AloneLemmas
pub mod SharingLemmas
pub mod Stops
mod TxnReplies
