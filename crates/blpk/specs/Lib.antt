pub mod Statuses
pub mod Words
pub mod Lines
pub mod Made
pub mod Causes
pub mod Outcomes
