pub mod Pages
pub mod StandsFor
pub mod Pushing
