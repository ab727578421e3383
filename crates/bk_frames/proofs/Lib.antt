pub mod Stacked
pub mod WordsKept
pub mod Entries
pub mod Tables
pub mod Owners
pub mod Settled
pub mod Searched
pub mod Listed
pub mod Packed
pub mod Compacted
mod ExampleLemmas
