pub mod Meeting
pub mod Levels
pub mod Likes
pub mod HullLaws
pub mod Steps
