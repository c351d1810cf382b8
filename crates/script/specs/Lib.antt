pub mod Commands
pub mod Shares
