pub mod Bytes
pub mod Faults
pub mod Input
pub mod Numbers
pub mod Outcomes
pub mod Pieces
