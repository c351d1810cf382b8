pub mod Checks
pub mod Slots
pub mod Filling
