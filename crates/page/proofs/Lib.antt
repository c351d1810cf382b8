pub mod Places
pub mod Sounds
pub mod Puts
pub mod Rows
pub mod Below
