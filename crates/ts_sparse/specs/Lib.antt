pub mod Tilings
pub mod Sparse
pub mod Cuts
pub mod Laying
pub mod Told
pub mod Seen
pub mod TextObjects
