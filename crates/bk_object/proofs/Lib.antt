pub mod ModeLemmas
pub mod RowLemmas
pub mod KindLemmas
