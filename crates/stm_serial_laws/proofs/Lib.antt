pub mod BaseReads
pub mod StepEnds
pub mod Turns
pub mod Serialized
