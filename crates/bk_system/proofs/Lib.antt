pub mod FixedPart
pub mod Folds
pub mod Bounds
