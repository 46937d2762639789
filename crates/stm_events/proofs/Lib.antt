pub mod SameReplies
pub mod Asking
pub mod CallReplies
pub mod CallMeans
pub mod StoreKeeps
pub mod CallEnters
pub mod Refusals
