pub mod Fixtures
pub mod TenSheets
