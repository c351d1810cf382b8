pub mod Widest
pub mod Natural
pub mod Wider
pub mod Counts
