pub mod Records
pub mod Slots
pub mod Totals
pub mod Input
pub mod Whole
pub mod Answered
pub mod Isolated
pub mod Pieces
