pub mod Reading
pub use Rattle.stm_json.specs.Outcome
pub use Rattle.stm_json.specs.Returns
