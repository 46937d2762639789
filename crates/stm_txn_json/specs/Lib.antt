pub mod Words
pub mod Reading
pub mod Grammar
pub mod FirstFault
pub use Rattle.stm_json.specs.Outcome
pub use Rattle.stm_json.specs.Returns
