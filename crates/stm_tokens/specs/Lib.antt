pub mod Names
pub mod Numbers
pub mod Positions
pub mod Quoted
pub mod Runs
pub mod Same
pub mod Symbols
pub mod Tokens
