pub mod Fitting
pub mod RowCounts
pub mod CuttingLaws
pub mod BreakPlaces
pub mod WordLaws
