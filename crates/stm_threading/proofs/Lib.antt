pub mod CountLemmas
pub mod RunLemmas
pub mod FaultLemmas
