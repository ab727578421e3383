pub mod Played
pub mod Input
pub mod Replayed
pub mod Isolated
pub mod Gathered
