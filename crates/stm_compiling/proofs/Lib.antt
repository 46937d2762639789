pub mod Answering
pub mod Arguments
pub mod Fronts
pub mod Inputs
