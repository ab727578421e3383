pub mod Agrees
pub mod Machined
