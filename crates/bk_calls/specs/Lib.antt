pub mod Made
pub mod Shown
pub mod Decided
pub mod Reached
