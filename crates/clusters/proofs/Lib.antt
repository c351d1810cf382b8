pub mod Ranges
pub mod Cutting
pub mod ByteLaws
pub mod Spelling
pub mod Decoding
