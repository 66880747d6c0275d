pub mod Tiles
pub mod Spelled
pub mod Stored
pub mod Faults
pub mod Starts
pub mod Origins
pub mod Coords
