pub mod OwnTurns
pub mod Passing
pub mod Merging
pub mod Telling
pub mod AllLanes
