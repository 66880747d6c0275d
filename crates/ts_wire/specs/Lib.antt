pub mod Broken
pub mod Envelope
pub mod Exact
pub mod Fields
pub mod Laws
pub mod Numbers
pub mod Place
pub mod Reading
