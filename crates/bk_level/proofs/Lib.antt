pub mod LevelOrder
pub mod MaskLemmas
pub mod TableLemmas
