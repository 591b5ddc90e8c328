pub mod Digits
pub mod Spacing
pub mod Stopping
pub mod Reading
pub mod Lines
pub mod Spelling
