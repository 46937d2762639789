pub mod Running
pub mod Threading
