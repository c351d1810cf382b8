pub mod Short
pub mod Told
