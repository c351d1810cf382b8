pub mod Lines
pub mod Firsts
pub mod Places
pub mod Admitted
