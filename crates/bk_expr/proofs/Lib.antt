pub mod Enough
pub mod Runs
pub mod Shorter
pub mod Steps
pub mod Tables
pub mod Waits
pub mod Working
