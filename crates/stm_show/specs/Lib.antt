pub mod Events
pub mod Scenario
pub mod Showing
pub mod Transactions
