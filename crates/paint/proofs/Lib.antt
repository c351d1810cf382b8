pub mod RowSteps
pub mod TextSteps
pub mod RuleSteps
pub mod EntrySteps
pub mod TableSteps
pub mod SheetSteps
