pub mod Selections
pub mod Asked
pub mod Plans
pub mod Passes
pub mod Vacs
