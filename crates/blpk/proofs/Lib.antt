pub mod Ended
pub mod Numbers
pub mod Runs
pub mod Texts
pub mod Converted
