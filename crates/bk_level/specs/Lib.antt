pub mod Levels
pub mod Sameness
pub mod Masks
pub mod Tables
