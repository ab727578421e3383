pub mod InPlace
pub mod Parts
pub mod Mapped
pub mod Fronts
pub mod Takes
pub mod Filled
pub mod Together
pub mod Kept
