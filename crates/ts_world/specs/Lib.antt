pub mod Views
pub mod Breaks
pub mod Slots
pub mod Clauses
