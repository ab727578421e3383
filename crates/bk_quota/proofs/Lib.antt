pub mod ExampleLemmas
pub mod GoverningLemmas
