pub mod Walking
pub mod Cleaning
