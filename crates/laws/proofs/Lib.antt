pub mod Books
pub mod Zones
pub mod Runs
