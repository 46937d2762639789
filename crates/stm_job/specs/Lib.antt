pub mod Draw
pub mod Ends
pub mod Laws
pub mod Seats
