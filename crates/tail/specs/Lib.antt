pub mod Texts
pub mod Lines
pub mod Fences
pub mod Entries
pub mod Cook
pub mod Scanning
pub mod Patches
