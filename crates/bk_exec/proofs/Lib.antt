pub mod FaultLemmas
pub mod MostLemmas
pub mod WriteLemmas
mod AlikeParts
pub mod CountedRegisters
