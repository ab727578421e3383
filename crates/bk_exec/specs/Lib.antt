pub mod Control
pub mod Example
pub mod Exec
pub mod Extended
pub mod Given
pub mod Operands
pub mod Previous
pub mod Laws
