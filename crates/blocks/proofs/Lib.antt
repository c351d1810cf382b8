pub mod Flats
pub mod Trims
pub mod Kept
pub mod Draws
pub mod Tells
pub mod Counts
pub mod Shows
