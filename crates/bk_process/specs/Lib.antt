pub mod Lending
pub mod NewProcess
