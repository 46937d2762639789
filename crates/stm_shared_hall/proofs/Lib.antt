pub mod Crossing
pub mod There
