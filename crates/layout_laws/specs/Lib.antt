pub mod Layouts
pub mod Laws
