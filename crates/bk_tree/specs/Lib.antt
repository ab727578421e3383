pub mod Objects
pub mod Kept
pub mod Needs
pub mod Refused
pub mod Places
pub mod Order
pub mod Whole
pub mod Down
