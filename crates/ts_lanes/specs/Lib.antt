pub mod Commands
pub mod Lanes
pub mod Together
