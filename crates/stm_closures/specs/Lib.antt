pub mod TransactionState
pub mod Transactions
pub mod Outcomes
pub mod Committing
pub mod Staying
