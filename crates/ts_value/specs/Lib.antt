pub mod Fill
pub mod Fits
pub mod Order
