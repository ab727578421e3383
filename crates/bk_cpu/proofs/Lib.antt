pub mod CountSets
pub mod PageLemmas
pub mod RegisterFields
pub mod TopBits
