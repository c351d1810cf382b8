pub mod Rulings
pub mod Glyphs
pub mod Pieces
