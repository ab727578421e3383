pub mod Memory
pub mod Outside
pub mod Written
pub mod Maps
pub mod Faults
pub mod Parts
pub mod Example
