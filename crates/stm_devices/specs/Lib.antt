pub mod Devices
pub mod Transfers
pub mod Ends
