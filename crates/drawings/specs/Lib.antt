pub mod Strokes
pub mod Tables
pub mod Drawings
pub mod Pages
pub mod Frames
