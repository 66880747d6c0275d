pub mod Slots
pub mod Dense
pub mod Laying
