pub mod Kinds
pub mod Cursors
pub mod Refusals
pub mod Styles
