pub mod SideLaws
pub mod RowLaws
pub mod RunLaws
pub mod TableRows
pub mod PartLaws
pub mod SharedLaws
pub mod BoxLaws
