pub mod Checking
pub mod Explaining
pub mod Recipes
pub mod Showing
pub mod Statuses
pub mod WholeChecking
