pub mod Ends
pub mod Numerals
pub mod Pieces
pub mod Hex
