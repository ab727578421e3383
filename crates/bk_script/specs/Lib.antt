pub mod Limits
pub mod Fault
pub mod Fields
pub mod Lines
pub mod Script
