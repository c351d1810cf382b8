pub mod Ends
pub mod Whites
