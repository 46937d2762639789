pub mod Branching
pub mod Folding
pub mod Widening
pub mod Applying
