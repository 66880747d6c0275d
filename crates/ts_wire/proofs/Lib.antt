pub mod Bodies
pub mod FieldLaws
pub mod First
pub mod Laws
pub mod Loop
pub mod Numbers
pub mod Objects
pub mod Widths
