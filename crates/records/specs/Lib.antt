pub mod Alignments
pub mod Acts
pub mod Memory
