pub mod Modes
pub mod Kinds
pub mod Rows
pub mod Pairs
pub mod Limits
