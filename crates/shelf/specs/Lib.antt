pub mod Bytes
pub mod Blocks
pub mod Shelves
