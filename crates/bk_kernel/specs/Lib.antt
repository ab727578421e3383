pub mod Instructions
pub mod Items
pub mod Progress
pub mod StandsFor
pub mod Stretch
pub mod Tables
