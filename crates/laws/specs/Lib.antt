pub mod Accounts
pub mod Stands
