pub mod Touching
pub mod Foreign
pub mod Agree
pub mod AgreeingPlaces
pub mod Beginning
