pub mod Sketches
pub mod Stands
