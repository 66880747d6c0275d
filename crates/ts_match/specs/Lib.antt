pub mod Sights
pub mod Matching
pub mod Keeping
