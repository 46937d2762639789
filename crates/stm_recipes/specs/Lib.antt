pub mod Names
pub mod Accounts
pub mod Queues
pub mod Slots
pub mod Alone
