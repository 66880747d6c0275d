mod Corners
mod FragTexts
pub mod LineLaws
mod Merged
pub mod PlanLaws
mod PlanSteps
mod Selected
pub mod Sets
mod Steps
mod WorkedRows
