pub mod Ones
pub mod Entries
