pub mod Asking
pub mod Cutting
pub mod HelpTopics
pub mod Levels
pub mod Numbers
pub mod Statuses
pub mod Wording
