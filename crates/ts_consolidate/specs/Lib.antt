pub mod Consolidations
pub mod Consolidators
pub mod Fetching
pub mod Merges
pub mod Named
pub mod Placing
