pub mod Loading
pub mod Beginning
pub mod Kept
