pub use Rattle.stm_steps.specs.Meaning
pub mod Sites
pub mod Returns
pub mod Found
pub mod Laws
