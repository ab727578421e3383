pub mod Orders
pub mod Triples
pub mod SmallestSecure
pub mod AlikeCalls
pub mod Holding
pub mod Raised
