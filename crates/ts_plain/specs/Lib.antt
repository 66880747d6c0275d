pub mod Insides
pub mod Merges
pub mod Pieces
pub mod Plain
pub mod Rules
pub mod Writes
