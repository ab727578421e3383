pub mod ActivePages
pub mod Kept
pub mod Example
