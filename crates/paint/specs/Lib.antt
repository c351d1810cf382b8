pub mod Pens
pub mod Refusals
