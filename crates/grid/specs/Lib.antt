pub mod Grids
pub mod Memory
