pub mod Kept
pub mod Shows
pub mod Advanced
pub mod Laws
