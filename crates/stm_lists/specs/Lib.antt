pub mod Links
pub mod Lists
pub mod Chain
pub mod Clones
pub mod NodeClone
