pub mod Operand
pub mod Part
