pub mod Disk
pub mod RecordFiles
pub mod Head
pub mod Laws
