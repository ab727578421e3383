pub mod Codes
pub mod Decode
pub mod Extended
pub mod Names
pub mod Numbers
pub mod Results
pub mod Rows
