pub mod Sides
pub mod Rows
pub mod Runs
pub mod Parts
