pub mod Parts
pub mod Tables
pub mod Branches
pub mod Modes
pub mod Inks
pub mod Steps
