pub mod OneStepMore
pub mod TakenTxns
pub mod ReadsNow
pub mod NoneFails
pub mod BrokenOff
