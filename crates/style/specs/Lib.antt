pub mod Styles
pub mod Symbols
