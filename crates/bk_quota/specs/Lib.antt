pub mod Charges
pub mod Usage
pub mod Example
