pub mod Crash
pub mod Heads
mod Hurt
pub mod Moments
mod Restart
