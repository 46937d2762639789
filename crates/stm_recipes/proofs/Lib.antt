pub mod Steps
pub mod AccountRuns
pub mod Payments
pub mod SlotRuns
pub mod QueueRuns
pub mod ReaderLemmas
