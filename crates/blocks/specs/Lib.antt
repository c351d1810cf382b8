pub mod Pieces
pub mod Drafts
pub mod Reads
pub mod Fronts
pub mod Needs
pub mod Stands
