pub mod Paged
pub mod Vectors
pub mod Trap
pub mod Machine
pub mod Lending
