pub mod CheckpointText
pub mod Kept
pub mod Laws
pub mod Stages
