pub mod Locked
pub mod Laws
pub mod Showing
pub use Rattle.stm_journal.specs.StateOf
