pub mod Ascii
pub mod Ends
pub mod Kept
pub mod Parts
