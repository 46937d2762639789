pub mod Parts
pub mod Frames
pub mod State
pub mod Finish
pub mod Moves
pub mod Steps
pub mod Laws
pub mod Direct
