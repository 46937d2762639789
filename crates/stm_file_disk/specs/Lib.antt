pub mod Event
pub mod Replay
pub mod Moments
