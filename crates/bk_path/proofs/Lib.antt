pub mod PathLemmas
pub mod KeyLemmas
pub mod KeyWords
pub mod KeyOrder
