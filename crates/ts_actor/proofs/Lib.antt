pub mod MachineLaws
pub mod DrivenSoFar
pub mod JobRuns
pub mod Below
pub mod Collected
pub mod Newer
pub mod Rising
