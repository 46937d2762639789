pub mod Names
pub mod Replies
pub mod FirstReads
pub mod Called
