pub mod Program
pub mod Subjects
pub mod Objects
pub mod Image
pub mod Numbers
pub mod Script
