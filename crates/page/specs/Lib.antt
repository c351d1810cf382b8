pub mod Cells
pub mod Refusals
pub mod Admitted
pub mod Surfaces
pub mod Laws
pub mod Rows
pub mod Layers
