pub mod UndoneLemmas
pub mod ReferenceLemmas
pub mod CountLemmas
