pub mod Conditions
pub mod Expressions
pub mod Program
pub mod Statements
pub mod Texts
