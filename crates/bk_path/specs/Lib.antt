pub mod Paths
pub mod Orders
pub mod Packed
pub mod Spelt
pub mod Keys
