pub mod FitLaws
pub mod Texts
pub mod ValOrder
