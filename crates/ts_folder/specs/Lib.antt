pub mod Listings
pub mod Notes
pub mod Paths
