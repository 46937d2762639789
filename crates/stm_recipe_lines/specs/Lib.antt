pub mod FaultTexts
pub mod Lines
pub mod Printing
pub mod Reading
