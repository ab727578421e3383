pub mod Alike
pub mod Setting
pub mod Shown
pub mod Written
pub mod Pushed
pub mod Loaded
