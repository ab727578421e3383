pub mod Direct
pub mod Pages
pub mod Plain
pub mod Reached
