pub mod Heights
pub mod Borders
pub mod Bits
