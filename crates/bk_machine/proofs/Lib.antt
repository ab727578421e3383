pub mod Located
pub mod VectorLemmas
pub mod Kernel
