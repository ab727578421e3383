pub mod Again
pub mod Found
pub mod Naming
pub mod Pairs
pub mod Plain
pub mod Splitting
