pub mod Removing
pub mod Removed
pub mod Listing
pub mod Listers
pub mod Sweeping
pub mod Vacuums
