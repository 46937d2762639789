pub mod Compared
pub mod Named
pub mod Written
