pub mod Cut
pub mod History
pub mod Laws
pub mod Opening
pub mod Texts
