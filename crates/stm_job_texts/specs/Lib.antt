pub mod Accepting
pub mod Lines
pub mod Outcomes
pub mod StoreAfter
pub mod Tallies
