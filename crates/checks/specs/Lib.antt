pub mod Marks
pub mod Measures
pub mod Checks
