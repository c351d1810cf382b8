pub mod Shaving
pub mod Totals
pub mod Wider
pub mod Balance
