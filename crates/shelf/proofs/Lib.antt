pub mod Tests
pub mod Lawful
pub mod Slots
pub mod Kept
pub mod Shelved
pub mod Opened
